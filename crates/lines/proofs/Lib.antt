pub mod Checked
pub mod Scans
pub mod Tables
pub mod Lines
pub mod Listings
pub mod Agreement
pub mod Instances
pub mod Least
