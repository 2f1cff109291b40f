pub mod Bounded
pub mod ByRule
