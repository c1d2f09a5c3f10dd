pub mod Logs
pub mod Turning
pub mod Playing
pub mod Showing
pub mod Counts
