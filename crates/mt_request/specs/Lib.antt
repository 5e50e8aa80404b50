pub mod Faults
pub mod Growths
pub mod Values
pub mod Asks
pub mod Requests
