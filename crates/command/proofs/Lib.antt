pub mod Checked
pub mod Words
