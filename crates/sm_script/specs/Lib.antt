pub mod Answering
pub mod Scripts
pub mod Repeating
