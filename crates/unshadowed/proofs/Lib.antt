pub mod Checked
pub mod Matched
pub mod Parts
pub mod Steps
