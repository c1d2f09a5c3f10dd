-- Ladders: other orders of additions that give the same point.
pub mod Equal
pub mod Scaled
pub mod Bits
pub mod Multiplied
pub mod Teeth
pub mod Comb
pub mod Joint
