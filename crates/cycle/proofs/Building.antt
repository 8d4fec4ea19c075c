-- Judging and building: what is accepted, what is answered, what is written.
pub mod Refusals
pub mod LineByIndex
pub mod Accepted
pub mod PlanFigures
pub mod Answering
pub mod Outcomes
pub mod BuiltImage
pub mod AcceptedLists
pub mod AcceptedPlans
pub mod BucketsWritten
pub mod Written
pub mod Writings
pub mod Sizing
pub mod SizeAgrees
pub mod BlankedBuilt
