pub mod Laid
pub mod Slip
pub mod Examples
