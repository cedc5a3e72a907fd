pub use Rattle.sm_history.specs.Histories
pub use Rattle.sm_policy.specs.Policy
pub mod States
pub mod StateLines
