pub mod Ascents
pub mod Lefts
pub mod Keys
pub mod Costs
pub mod Walked
pub mod Outers
pub mod Reaches
pub mod Deaths
