pub mod Letters
pub mod Lines
pub mod Fields
pub mod Numbers
pub mod Plain
