pub mod Lawful
pub mod Growing
pub mod Kept
pub mod Sights
pub mod Opens
pub mod Views
pub mod Accepting
pub mod Ran
