pub mod Solo
pub mod InOrder
