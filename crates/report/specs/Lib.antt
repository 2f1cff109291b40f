pub mod Report
pub mod Put
pub mod Printed
pub mod Examples
