pub mod Checked
pub mod Queues
