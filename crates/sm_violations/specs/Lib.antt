pub mod Bounding
pub mod Clashing
pub mod Finding
pub mod Laws
pub mod Listing
