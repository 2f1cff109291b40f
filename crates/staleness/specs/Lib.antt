pub mod Audit
pub mod Promises
pub mod Examples
