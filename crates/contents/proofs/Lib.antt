pub mod RoundTrip
pub mod Put
pub mod Checked
pub mod Instances
