pub mod Registries
pub mod Rule
pub mod Opening
pub mod SeatsOrSessions
pub mod Locked
pub mod Logged
pub mod Telling
