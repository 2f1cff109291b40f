pub mod Emptied
pub mod StartStopEmpty
pub mod Verdicts
