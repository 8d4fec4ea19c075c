-- Segments: their parts, their places, and how the code holds them.
pub mod StandsAt
pub mod SegmentBuckets
pub mod SegmentAt
pub mod LayoutSegments
pub mod HeldSegments
pub mod HeldBlocks
pub mod HeldParts
pub mod SegmentData
pub mod SegmentParts
pub mod SegmentLoops
pub mod SegmentSizes
pub mod Positions
pub mod BucketAt
pub mod TreePlaces
pub mod Subtrees
