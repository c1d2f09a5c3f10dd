pub mod Telling
pub mod Turning
pub mod Serving
pub mod Meeting
