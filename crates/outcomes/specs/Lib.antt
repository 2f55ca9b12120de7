pub mod Causes
pub mod Info
pub mod Outcomes
pub mod Written
