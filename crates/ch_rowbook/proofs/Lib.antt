pub mod Fronts
pub mod WordSteps
pub mod BoundOfRows
pub mod Seats
pub mod PenKeeps
pub mod RisingVersions
