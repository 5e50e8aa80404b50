pub mod Values
pub mod Entries
pub mod Tables
pub mod Keys
pub mod Fronts
pub mod Words
pub mod Lines
