-- Definitions that only the contracts of inner functions cite, and laws.
pub mod Held
pub mod Comparing
pub mod Settings
pub mod ListLines
pub mod Changing
pub mod HeldOnce
