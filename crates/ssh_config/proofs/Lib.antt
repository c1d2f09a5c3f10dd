pub mod Booleans
pub mod Lines
pub mod Lists
pub mod Kept
pub mod Announced
