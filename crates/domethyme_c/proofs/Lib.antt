pub mod Steps
pub mod Handles
pub mod Tables
mod Cells
pub mod Towards
pub mod Bands
pub mod Listed
pub mod Starts
pub mod LinkPlaces
