pub mod InOrder
pub mod SmallPiece
