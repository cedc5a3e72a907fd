pub mod Hitting
pub mod Violating
