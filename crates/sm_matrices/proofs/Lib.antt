pub mod Searches
pub mod Layers
pub mod Doubling
pub mod Rows
pub mod Groups
pub mod Saying
pub mod Deciding
pub mod Reading
