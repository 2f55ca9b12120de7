mod CallAfterCall
mod FirstBytesTaken
mod SinkPassesOn
pub mod PartAfterPart
