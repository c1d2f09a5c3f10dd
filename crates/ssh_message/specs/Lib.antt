pub mod Announced
pub mod Extensions
pub mod Fields
pub mod Meaning
pub mod Methods
pub mod Parts
pub mod Shown
pub mod Written
