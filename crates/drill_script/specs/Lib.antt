pub mod Commands
pub mod Poke
pub mod Words
