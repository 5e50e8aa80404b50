pub mod Agreements
pub mod Known
pub mod Resolvers
pub mod Runs
pub mod Searches
