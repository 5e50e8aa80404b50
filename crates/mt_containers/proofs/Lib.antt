pub mod Leasts
pub mod Seens
pub mod Tables
pub mod Texts
pub mod Members
pub mod Walks
pub mod Explorations
