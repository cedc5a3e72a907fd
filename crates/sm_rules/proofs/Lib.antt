pub mod Standing
pub mod Walks
pub mod Lines
pub mod Consistent
pub mod Undeclared
pub mod Permitting
pub mod PermBits
mod Memoed
