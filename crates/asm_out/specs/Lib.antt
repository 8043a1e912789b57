pub mod Groups
pub mod Symbols
pub mod Object
pub mod Causes
pub mod Rows
