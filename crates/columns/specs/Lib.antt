-- The definitions that the contracts of this crate and of the crates above it cite.
pub mod Lists
pub mod PrintedNumbers
pub mod Inner
