pub mod Bits
pub mod Sharing
