pub mod Listed
pub mod Named
