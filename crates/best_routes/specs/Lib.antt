pub mod BestRoutes
pub mod Walks
