pub mod Items
pub mod Entries
pub mod Passes
pub mod Accounts
pub mod Closing
