pub mod Digests
pub mod Outcomes
pub mod Reports
pub mod Listings
