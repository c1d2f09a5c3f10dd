pub mod Fronts
pub mod Prefixes
pub mod Sent
