pub mod Point
pub mod Group
pub mod Comb
pub mod Windows
pub mod Encoding
pub mod Scalar
pub mod Order
pub mod Signature
