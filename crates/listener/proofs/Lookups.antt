-- Runs over an image, and lookups.
pub mod Images
pub mod RunHearings
pub mod CopiedLines
pub mod Runs
pub mod WritingRuns
pub mod LookupOutcomes
pub mod EnoughSteps
