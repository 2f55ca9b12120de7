pub mod Orders
pub mod Leaving
pub mod Comparing
