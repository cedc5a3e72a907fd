pub mod Blocks
pub mod Left
pub mod Members
pub mod Pairs
pub mod Refusals
pub mod Steps
pub mod Truths
