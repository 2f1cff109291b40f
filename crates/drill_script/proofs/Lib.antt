pub mod Filling
pub mod Ops
