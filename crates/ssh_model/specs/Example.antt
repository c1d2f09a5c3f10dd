pub mod Toys
pub mod Histories
pub mod Run
pub mod PlainRun
