pub mod ReceiptMarks
mod ListPlaces
