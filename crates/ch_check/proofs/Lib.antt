pub mod Replaying
mod Outcomes
pub mod Joining
mod Tests
