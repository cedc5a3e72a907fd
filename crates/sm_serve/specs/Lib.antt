pub mod Lines
pub mod OwnerLines
