pub mod FileParts
pub mod Parameters
pub mod Places
pub mod Tells
pub mod UnitParts
pub mod ListOf
