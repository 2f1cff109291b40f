pub mod Noon
