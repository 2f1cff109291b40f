pub mod Checked
pub mod Decimals
pub mod Same
pub mod Texts
