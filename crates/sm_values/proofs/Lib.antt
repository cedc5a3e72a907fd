pub mod Readers
pub mod ByteTables
pub mod SameWords
