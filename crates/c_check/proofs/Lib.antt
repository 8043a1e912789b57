pub mod Lawful
pub mod Placed
pub mod Rows
