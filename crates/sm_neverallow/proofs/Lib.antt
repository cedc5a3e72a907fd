pub mod Meeting
pub mod Apart
pub mod Ready
pub mod Broken
pub mod Sifting
pub mod Consistent
pub mod Firsts
pub mod Choosing
