-- What stands in each bucket, and that it keeps the rules.
pub mod ChildEntries
pub mod IndexBuckets
pub mod IndexGood
pub mod DataGood
pub mod TreeBuckets
pub mod TreeEntries
pub mod PathBuckets
pub mod BuiltGood
