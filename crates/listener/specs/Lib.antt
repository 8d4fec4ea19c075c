-- The definitions that the contracts of this crate and of the crates above it cite.
pub mod Listener
pub mod Hearing
pub mod Lookup
pub mod Demand3
pub mod OnAir
pub mod Lost
pub mod EndPlace
pub mod Mean
pub mod HeardLimit
pub mod SampleYard
pub mod Readings
pub mod ChangedList
pub mod LostTable
pub mod MeanTable
pub mod State
pub mod Started
pub mod Inner
