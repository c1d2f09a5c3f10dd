pub mod Numbers
pub mod Strings
pub mod Blocks
pub mod Commons
pub mod Truths
pub mod Choices
