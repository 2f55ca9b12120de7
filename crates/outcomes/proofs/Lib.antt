mod RefusalsAreShown
pub mod FileSize
