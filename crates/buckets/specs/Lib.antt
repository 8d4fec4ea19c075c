-- The definitions that the contracts of this crate and of the crates above it cite.
pub mod Lengths
pub mod ListLine
pub mod Bucket
pub mod BucketLines
pub mod Bridges
pub mod Inner
