pub mod Steps
pub mod Bounds
pub mod Modulo
pub mod Exponents
pub mod Spelling
pub mod Tests
pub mod Rows
