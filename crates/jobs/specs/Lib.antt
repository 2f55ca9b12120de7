pub mod Orders
pub mod Job
pub mod Stops
