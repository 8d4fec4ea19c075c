-- The mean wait: the different tags of a list, sums over tune-ins, what a list's tags add, and the answers.
pub mod DifferentTags
pub mod Sums
pub mod TuneIns
pub mod Waits
pub mod Answers
