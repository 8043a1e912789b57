pub mod Names
pub mod Kinds
pub mod Types
pub mod Of
pub mod Sizes
pub mod Members
pub mod Cells
pub mod Parts
