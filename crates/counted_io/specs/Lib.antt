pub mod Handing
pub mod Calls
pub mod Limits
pub mod Names
pub mod Sinks
