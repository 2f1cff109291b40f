pub mod Decimals
pub mod Texts
pub mod Raw
pub mod Examples
