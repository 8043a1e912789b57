pub mod Events
pub mod Facts
pub mod Groups
pub mod Types
pub mod Given
pub mod Classes
pub mod Refusals
