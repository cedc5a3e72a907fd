pub mod RowLemmas
pub mod Tracked
pub mod Others
