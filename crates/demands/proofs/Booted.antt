pub mod FreshGuests
pub mod FreshHouse
