pub mod Boot
pub mod Calls
pub mod Checked
pub mod Damage
pub mod Lists
pub mod Turns
pub mod Refusals
