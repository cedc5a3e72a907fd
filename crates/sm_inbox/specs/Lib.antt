pub mod Rows
pub mod Tracking
