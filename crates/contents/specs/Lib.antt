pub mod Contents
pub mod Examples
