pub mod Options
pub mod Packages
