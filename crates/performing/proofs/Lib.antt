mod OneForEach
pub mod StatusOfOutcome
