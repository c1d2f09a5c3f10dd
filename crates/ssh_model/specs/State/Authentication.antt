pub mod Kept
pub mod Summary
