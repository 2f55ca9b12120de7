pub mod Turned
pub mod Laws
