pub mod Commands
pub mod Keeps
pub mod Shown
pub mod Taken
