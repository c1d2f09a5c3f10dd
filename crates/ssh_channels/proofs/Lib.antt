pub mod Tables
pub mod Taking
pub mod Unblocking
pub mod Asking
pub mod Sessions
