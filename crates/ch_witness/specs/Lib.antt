pub mod Parent
pub mod FirstPlaces
pub mod Frontier
pub mod Kept
pub mod Places
pub mod Tree
pub mod Ways
