pub mod Agreement
pub mod Answered
pub mod Bare
pub mod Hits
pub mod Holders
pub mod Known
pub mod Searches
