pub mod Places
pub mod Placing
pub mod Served
