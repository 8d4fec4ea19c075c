-- The tree in closed form: levels, widths, subtrees, and the figures of a cycle.
pub mod Levels
pub mod Fulls
pub mod TreeLaws
pub mod TreeSizes
pub mod ChildTrees
pub mod Children
pub mod LargestTags
pub mod Inside
pub mod Shapes
pub mod Readiness
pub mod Segmented
