pub mod OfEmbedded
pub mod Answering
pub mod Boxing
pub mod EndHandle
pub mod HandleWalks
pub mod Handling
mod Announcing
mod Faults
mod GivenBack
mod Known
mod Named
mod NewEnds
mod Padding
mod UpTo
mod Written
pub mod Crossing
mod Options
