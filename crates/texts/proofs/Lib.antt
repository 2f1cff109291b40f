pub mod Back
pub mod Checked
pub mod Said
pub mod Pieces
pub mod Whole
