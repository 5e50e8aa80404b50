pub mod Classes
pub mod Escapes
pub mod LineEnds
pub mod Names
pub mod Numbers
