pub mod Entries
pub mod Facts
pub mod Rows
pub mod Sessions
pub mod Shown
pub mod Table
pub mod Values
