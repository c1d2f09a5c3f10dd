pub mod Asks
pub mod Network
pub mod Shortage
