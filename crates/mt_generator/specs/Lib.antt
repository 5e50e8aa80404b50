pub mod Draws
pub mod Growths
pub mod Modules
