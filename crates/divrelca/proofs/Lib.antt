pub mod OfParts
pub mod Cuts
pub mod Decoding
pub mod Fields
pub mod Patterns
mod Appending
pub mod FoundKeys
mod Stepping
