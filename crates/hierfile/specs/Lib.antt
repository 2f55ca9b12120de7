pub mod Names
pub mod Spelling
pub mod Taken
pub mod Fault
pub mod Bytes
pub mod Reading
pub mod Writing
pub mod Laws
