pub mod Changed
pub mod Conditions
pub mod Denied
pub mod Undamaged
pub mod Updates
