-- Definitions that only the contracts of inner functions cite, and laws.
pub mod Columns
pub mod Held
pub mod Arrays
