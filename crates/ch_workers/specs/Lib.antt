pub mod Account
pub mod Options
pub mod Built
