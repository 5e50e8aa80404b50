pub mod Workers
pub mod Bounds
pub mod Entries
pub mod Said
pub mod Rows
