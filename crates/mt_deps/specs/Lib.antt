pub mod Gathered
pub mod Groups
pub mod Numbers
pub mod Seen
pub mod Spans
pub mod Uses
pub mod Words
