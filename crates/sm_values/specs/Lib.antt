pub mod Users
pub mod Contexts
pub mod Names
pub mod Permissions
pub mod Messages
pub mod Reading
pub mod Lines
pub mod Words
