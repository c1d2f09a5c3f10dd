pub mod Status
pub mod History
pub mod EpochEnd
pub mod Turns
pub mod Pair
pub mod Shown
