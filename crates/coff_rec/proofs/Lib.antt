mod Rows
pub mod Blocks
