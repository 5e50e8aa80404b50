pub mod Lists
pub mod Graphs
pub mod Patches
pub mod Tables
pub mod Overlays
