pub mod TwoEnds
