pub mod Commands
pub mod Heads
pub mod Steps
pub mod Scripts
pub mod Reads
pub mod Faults
