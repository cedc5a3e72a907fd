pub mod Connections
pub mod Desks
pub mod Growing
pub mod Held
pub mod Owned
pub mod Responses
pub mod Sessions
pub mod Sinks
