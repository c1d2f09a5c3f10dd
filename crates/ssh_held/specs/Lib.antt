pub mod Book
pub mod Asking
pub mod Places
pub mod Held
pub mod Hosts
pub mod HostKeys
pub mod HeldHosts
pub mod Signing
