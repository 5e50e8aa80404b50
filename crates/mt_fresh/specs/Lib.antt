pub mod Visits
pub mod GraphRevisions
pub mod Calls
pub mod JudgedGraphs
