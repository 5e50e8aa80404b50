pub mod Bodies
pub mod Outputs
pub mod Ranges
pub mod Transformed
