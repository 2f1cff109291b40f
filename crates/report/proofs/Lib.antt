pub mod Checked
pub mod Texts
pub mod Answers
