-- Arithmetic, lists in a row, tests that decide, conditions in order, and the answers that their numbers tell.
pub mod Ranges
pub mod Least
pub mod Lasts
pub mod Powers
pub mod Deciding
pub mod RangeTests
pub mod Conditions
pub mod Numbers
pub mod LayoutKinds
pub mod Telling
