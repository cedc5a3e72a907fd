pub mod Rows
pub mod Orders
pub mod Watching
pub mod Tracking
