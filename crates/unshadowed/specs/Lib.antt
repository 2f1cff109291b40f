pub mod Memory
pub mod Turns
pub mod Answers
pub mod Examples
