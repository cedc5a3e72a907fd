pub mod Matrices
pub mod Tables
pub mod Uniting
