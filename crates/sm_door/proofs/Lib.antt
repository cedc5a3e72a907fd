mod Adding
mod Places
mod Logging
mod Counting
pub mod Crossing
