pub mod Paths
pub mod Adding
pub mod Walks
