-- Laws that no single function owns.
pub mod Basics
pub mod Trees
pub mod Sequences
pub mod Reach
pub mod Segmenting
pub mod Lines
pub mod Buckets
pub mod Building
pub mod ReadingBack
pub mod Changing
pub mod Waiting
