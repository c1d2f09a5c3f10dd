pub mod LookUps
pub mod Turning
pub mod Serving
pub mod Meeting
