pub mod Encoding
pub mod Row
pub mod Parts
pub mod Fields
