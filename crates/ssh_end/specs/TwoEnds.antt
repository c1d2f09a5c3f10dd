pub mod Items
pub mod Recording
pub mod Standing
pub mod Playing
pub mod Padding
pub mod Recorded
