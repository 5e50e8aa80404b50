pub mod Texts
pub mod formers
pub mod Walks
pub mod Explorations
