pub mod Names
pub mod Asks
pub mod Clients
pub mod Servers
pub mod Sessions
pub mod SignedTexts
