pub mod Histories
pub mod Demands
