pub mod Bits
pub mod Peeled
pub mod Written
pub mod Whole
pub mod Rows
