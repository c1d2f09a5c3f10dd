pub mod Asked
pub mod Deciding
pub mod NewEnds
pub mod Oldest
pub mod Trusting
