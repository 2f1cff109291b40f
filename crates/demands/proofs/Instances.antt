pub mod ClosedCalls
pub mod FairShares
pub mod ThreeGuests
pub mod Tickets
pub mod TwoGuests
pub mod TwoHouses
