pub mod Fronts
pub mod Joined
pub mod Mpints
pub mod Unsigned
