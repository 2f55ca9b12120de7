pub mod ByWeight
pub mod Contraction
pub mod Members
pub mod Moving
pub mod Orders
pub mod Rows
pub mod Theorems
pub mod Verdicts
