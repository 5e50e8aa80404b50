pub mod Ascii
pub mod Characters
pub mod Cuts
pub mod Extents
pub mod Parts
pub mod Rests
pub mod Runs
