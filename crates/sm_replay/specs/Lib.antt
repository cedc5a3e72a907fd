pub mod Turning
pub mod Replaying
