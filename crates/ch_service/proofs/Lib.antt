pub mod BestRoutes
pub mod JoinedLines
pub mod ByHierarchies
pub mod RefusalsByCause
