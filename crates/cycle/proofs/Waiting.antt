-- The waits of a list's tags: where a tag's lines and buckets stand, and the conditions.
pub mod SegmentStarts
pub mod DataPlaces
pub mod Passing
pub mod TagLines
pub mod PlanWaits
pub mod TagPass
pub mod ListPass
pub mod WaitAnswers
