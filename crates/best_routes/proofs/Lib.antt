pub mod PathsAsWalks
