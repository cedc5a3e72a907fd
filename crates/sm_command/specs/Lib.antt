pub mod Administering
pub mod Endings
