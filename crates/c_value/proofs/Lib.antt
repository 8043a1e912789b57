pub mod Arms
pub mod Bits
pub mod Calls
pub mod Outcomes
