pub mod Facts
pub mod Texts
pub mod Serving
pub mod Asking
pub mod Sessions
