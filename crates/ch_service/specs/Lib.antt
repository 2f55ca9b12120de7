pub mod Answer
pub mod BestRoutes
pub mod Cause
pub mod Outcome
pub mod Progress
pub mod Preparation
pub mod Refusals
