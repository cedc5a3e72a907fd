pub mod Adding
pub mod Declared
pub mod Lines
pub mod Removed
pub mod Rows
pub mod RuleByRule
