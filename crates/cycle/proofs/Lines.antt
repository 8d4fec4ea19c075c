-- The lines of a list and of data buckets, and their tags.
pub mod LineByLine
pub mod DataTags
pub mod Rising
pub mod Tags
pub mod PrintedTags
pub mod LinesHeld
pub mod CarriedLines
pub mod FollowOns
