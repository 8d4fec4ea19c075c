-- Reading back: an image held against the cycle of its lines, and demand 2.
pub mod BucketsCompared
pub mod Comparisons
pub mod Matching
pub mod ImageLines
pub mod ImagePlaces
pub mod ImageTags
pub mod ImageText
pub mod HeldImage
pub mod LineCount
pub mod ListWritten
pub mod MatchingBuilt
pub mod ReadBackAnswers
pub mod BuildsUnique
pub mod Demand2
pub mod LeadingZeros
pub mod TwoSizes
