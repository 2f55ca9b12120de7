pub mod World
pub mod Steps
pub mod Keeping
