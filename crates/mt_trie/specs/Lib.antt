pub mod Rows
pub mod Tries
