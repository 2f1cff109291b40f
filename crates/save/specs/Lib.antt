pub mod Saved
pub mod Reading
pub mod Calls
pub mod Whole
pub mod Promises
pub mod Examples
