pub mod Pieces
pub mod Ran
