pub mod Fit
pub mod Goes
pub mod Player
pub mod Saving
pub mod Told
