pub mod SmallText
pub mod Compiled
pub mod Built
