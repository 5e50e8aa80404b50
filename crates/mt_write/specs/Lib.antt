pub mod Modules
pub mod Bundle
pub mod Buffered
pub mod Pieces
