pub mod Words
pub mod Meeting
pub mod Checked
