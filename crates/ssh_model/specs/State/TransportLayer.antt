pub mod Directions
pub mod Kept
pub mod View
pub mod Summary
pub mod Turns
