pub mod Children
pub mod Splits
pub mod Folders
pub mod Segments
pub mod Paths
pub mod Walks
