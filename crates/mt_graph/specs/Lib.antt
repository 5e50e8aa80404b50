pub mod Founds
pub mod Explored
pub mod Graphs
pub mod Judged
pub mod Members
