pub mod Guests
pub mod HostStep
pub mod Kept
pub mod SameLayout
pub mod Shares
pub mod Stretch
