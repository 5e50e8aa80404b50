pub mod Sums
pub mod Rows
pub mod Fills
pub mod Totals
pub mod Ascents
pub mod Closings
pub mod Laid
