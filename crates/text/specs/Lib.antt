pub mod Claims
pub mod Commands
pub mod Lines
pub mod Piece
pub mod Pieces
pub mod Promise
