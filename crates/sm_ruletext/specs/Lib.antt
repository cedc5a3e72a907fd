pub mod Items
pub mod Lexing
pub mod Words
pub mod Sets
pub mod Kept
pub mod Grammar
pub mod Statements
pub mod Spelling
