mod SmallTrees
mod SmallTyped
pub mod SmallUnit
pub mod Shaped
