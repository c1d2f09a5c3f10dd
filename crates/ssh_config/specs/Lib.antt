pub mod Config
pub mod Checks
pub mod Values
pub mod Errors
pub mod Meaning
