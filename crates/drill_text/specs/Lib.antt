pub mod Digest
pub mod Lines
pub mod Numbers
pub mod Partitions
pub mod Queues
