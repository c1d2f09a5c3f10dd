pub mod Rules
pub mod SinceOpen
pub mod Places
pub mod Kept
pub mod Summary
