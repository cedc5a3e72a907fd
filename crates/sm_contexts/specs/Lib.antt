pub mod Keyed
pub mod Lines
pub mod Reading
