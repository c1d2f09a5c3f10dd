pub mod Fields
pub mod Methods
pub mod Rows
pub mod Payloads
pub mod Writing
pub mod Announcing
pub mod Encodings
