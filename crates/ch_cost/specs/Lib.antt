pub mod Cost
pub mod CostLaws
pub mod NarrowCost
pub mod ShortCost
