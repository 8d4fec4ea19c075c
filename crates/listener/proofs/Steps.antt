-- One step: what a bucket tells a listener, and what a step leaves of its state.
pub mod HeldLists
pub mod HeldBuckets
pub mod Readings
pub mod TagsAlone
pub mod Chosen
pub mod States
pub mod Dozes
pub mod StepBounds
pub mod StepLeaves
pub mod Mechanics
pub mod EndedSteps
pub mod SavedStates
pub mod StartedListeners
pub mod Told
pub mod Uncounted
