pub mod AdminTokens
