pub mod Fronts
pub mod Largest
