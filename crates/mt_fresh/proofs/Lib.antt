pub mod Visits
pub mod Calls
pub mod FreshGraph
pub mod GraphRevisions
pub mod JudgedGraphs
