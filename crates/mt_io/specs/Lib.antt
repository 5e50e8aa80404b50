pub mod Causes
pub mod Told
pub mod Files
pub mod Honest
pub mod Memory
pub mod Children
pub mod Seen
