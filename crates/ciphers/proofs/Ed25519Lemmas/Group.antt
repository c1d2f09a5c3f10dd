-- The group law of the curve.
pub mod Points
pub mod Polynomials
pub mod Identities
pub mod Coordinates
pub mod Multiples
pub mod Flat
pub mod Complete
pub mod Closed
pub mod Associative
pub mod Same
pub mod Laws
