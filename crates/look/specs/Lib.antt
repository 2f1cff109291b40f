pub mod Look
pub mod Examples
