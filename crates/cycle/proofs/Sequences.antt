-- The sequence of buckets that each layout sends, and what a listener rests on.
pub mod Sequence
pub mod Suffixes
pub mod Pieces
pub mod Paths
pub mod PathSizes
pub mod Blocks
pub mod Turns
pub mod Distributed
pub mod OneM
pub mod Keeping
pub mod DataOnce
pub mod LastSent
pub mod Occurring
