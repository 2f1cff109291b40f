pub mod Entries
pub mod Walk
pub mod Memory
pub mod Premises
pub mod Examples
