pub mod Line
pub mod File
pub mod BestLines
