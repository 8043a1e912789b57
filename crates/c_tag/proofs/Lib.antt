pub mod InOrder
pub mod Passed
pub mod TagBodies
pub mod TagRows
