pub mod Queues
pub mod Answers
pub mod Examples
