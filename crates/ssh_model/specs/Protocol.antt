pub mod Bounds
pub mod Side
pub mod Lists
pub mod Wire
pub mod KeyExchange
pub mod Authentication
pub mod Channels
pub mod Sessions
