pub mod Refuting
pub mod Replay
pub mod Pairs
pub mod Comparing
pub mod Ranks
