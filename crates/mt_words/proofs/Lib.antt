pub mod Keys
pub mod Numbers
pub mod Fronts
pub mod ReadFrom
pub mod Lines
pub mod Extends
pub mod Spelled
pub mod IsFront
