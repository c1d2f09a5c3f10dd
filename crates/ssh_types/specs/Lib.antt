pub mod Digits
pub mod Names
pub mod ReadRefusals
pub mod Values
pub mod Encodings
pub mod WholeNumbers
