pub mod LinkFaults
pub mod FoundWith
pub mod Runs
pub mod Members
pub mod Founds
pub mod Explored
pub mod Judged
pub mod Graphs
