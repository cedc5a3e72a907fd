pub mod RowLemmas
pub mod Tracked
pub mod OrderLemmas
pub mod WatchLemmas
pub mod TrackedWatches
pub mod Others
