pub mod Growth
pub mod Honest
pub mod Seen
pub mod Readings
pub mod Children
pub mod RestOf
pub mod Rests
pub mod KeepsOthers
