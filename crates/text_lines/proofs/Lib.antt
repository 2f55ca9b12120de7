pub mod LineCuts
pub mod PiecesOfPieces
pub mod DigitByDigit
