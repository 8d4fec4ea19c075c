-- The definitions that the contracts of this crate and of the crates above it cite.
pub mod Tree
pub mod Layouts
pub mod Cycle
pub mod Refusals
pub mod Building
pub mod ReadingBack
pub mod LeadingZeros
pub mod Judging
pub mod Size
pub mod Changes
pub mod Waits
pub mod ComingAndGoing
pub mod Skips
pub mod Inner
