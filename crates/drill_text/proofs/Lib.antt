pub mod Digests
pub mod Flags
pub mod Lent
pub mod Listed
