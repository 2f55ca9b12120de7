pub mod PartAfterPart
pub mod FaultsOfParts
pub mod LinkFaults
pub mod FaultlessIsWellMade
pub mod BodyFaults
pub mod OneSpelling
pub mod SpellingsHaveNoFault
