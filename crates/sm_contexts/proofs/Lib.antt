pub mod Cuts
pub mod Keys
pub mod Runs
pub mod FirstLines
pub mod Places
