pub mod Ends
pub mod LengthInClear
pub mod Pairs
pub mod Plain
pub mod Roles
pub mod Standard
pub mod Transports
pub mod Users
