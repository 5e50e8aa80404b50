pub mod Entries
pub mod Prefixes
pub mod Reading
pub mod Taken
pub mod Writing
