pub mod Counted
pub mod Grown
pub mod Landings
pub mod LeftByCalls
pub mod Standing
pub mod Stays
