pub mod Entries
pub mod Tries
