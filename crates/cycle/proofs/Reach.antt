-- How far it is to the next occurrence of a bucket, and where each bucket stands first.
pub mod Distances
pub mod NextOccurrence
pub mod Occurrences
pub mod FirstPlaces
pub mod FirstHeld
pub mod PathPairs
pub mod PairReach
pub mod PathFigures
pub mod DataHeld
pub mod DataRows
