pub mod Tokens
pub mod Bytes
pub mod Pieces
pub mod Falls
pub mod Reading
pub mod Shown
pub mod Refusals
pub mod Laws
