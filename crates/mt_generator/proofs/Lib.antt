pub mod Commands
pub mod Folders
pub mod ModulePaths
pub mod Sizes
