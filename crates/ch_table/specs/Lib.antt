pub mod Lengths
pub mod Labels
pub mod Selection
pub mod Laying
pub mod Sums
pub mod Packed
