pub mod TransportLayer
pub mod Authentication
pub mod Channels
pub mod End
