pub mod Notes
pub mod Heard
pub mod Keys
pub mod Leases
