pub mod Isolated
pub mod IsolatedRun
pub mod FrameZero
