-- Changes of a list: where a line stands, what the list is after a change, what its buffer holds, and what is answered.
pub mod Places
pub mod ChangedLines
pub mod ChangedLists
pub mod Moves
pub mod Searches
pub mod ChangedBuffers
pub mod GivenJudging
pub mod ChangeAnswers
pub mod MovedLines
pub mod ComingAndGoing
pub mod Skips
pub mod Arriving
pub mod Departing
