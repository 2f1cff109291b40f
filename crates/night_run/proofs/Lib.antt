pub mod Pieces
pub mod Choices
pub mod Files
pub mod Instances
