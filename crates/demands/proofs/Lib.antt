pub mod Booted
pub mod Demands
pub mod Fairness
pub mod Histories
pub mod Instances
pub mod Isolation
pub mod ReadOut
pub mod Shares
