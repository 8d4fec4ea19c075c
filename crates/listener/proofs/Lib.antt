-- Facts that no single function owns.
pub mod Steps
pub mod Walks
pub mod Lookups
pub mod SampleYard
pub mod OnAir
pub mod Lost
pub mod Demand3
pub mod NoneLost
pub mod EndPlace
pub mod HeardLimit
pub mod Means
pub mod ExactMean
