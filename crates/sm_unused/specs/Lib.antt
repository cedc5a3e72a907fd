pub mod Declarations
pub mod Missing
pub mod Removal
pub mod Rows
pub mod Unused
