pub mod Words
pub mod Books
pub mod Blanks
pub mod Names
pub mod Rising
pub mod Showing
