pub mod Names
pub mod Denoting
pub mod Declaring
pub mod Members
