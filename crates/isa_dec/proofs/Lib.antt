pub mod Numbers
pub mod Operands
pub mod Lengths
pub mod Forms
pub mod Back
pub mod Forth
pub mod More
pub mod Law
