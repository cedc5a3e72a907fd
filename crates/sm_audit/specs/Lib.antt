pub use Rattle.sm_history.specs.Records
pub mod AuditLines
pub mod Rings
