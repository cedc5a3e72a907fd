pub mod Access
pub mod Faults
pub mod Keeping
pub mod Pooling
pub mod Memoed
