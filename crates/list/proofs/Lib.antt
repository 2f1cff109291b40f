pub mod Checked
pub mod Pieces
pub mod Frames
