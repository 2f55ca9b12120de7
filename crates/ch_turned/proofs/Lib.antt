pub mod Walks
pub mod Turned
pub mod Ordered
