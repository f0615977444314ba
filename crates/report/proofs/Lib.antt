pub mod Pieces
pub mod Prints
