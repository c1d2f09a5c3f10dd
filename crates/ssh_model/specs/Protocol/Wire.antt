pub mod DataTypes
pub mod Message
pub mod Packet
pub mod Sealing
pub mod Outcome
pub mod Line
pub mod Delivery
pub mod Unit
