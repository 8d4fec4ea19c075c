-- Laws that belong to no one function.
pub mod Strict
pub mod Printed
pub mod OnePass
pub mod Digits
pub mod Joined
pub mod LeadingBlanks
pub mod Put
pub mod FromTheRight
pub mod Padded
pub mod Places
pub mod PlaceNumbers
pub mod Lenient
pub mod SpelledSoFar
pub mod Rows
pub mod Blank
