pub mod Promises
pub mod Booted
pub mod EmptyEach
pub mod Histories
pub mod Instances
