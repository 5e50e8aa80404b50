pub mod Drafts
pub mod OutputValues
pub mod Outputs
pub mod Ranges
pub mod Readings
