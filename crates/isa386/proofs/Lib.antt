pub mod Sums
pub mod Fields
