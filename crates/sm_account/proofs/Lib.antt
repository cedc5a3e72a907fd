pub mod Crossing
mod Staying
