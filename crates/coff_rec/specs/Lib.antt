pub mod TypeWords
pub mod AuxKinds
pub mod Records
pub mod Files
pub mod Symbols
pub mod Nesting
pub mod Scopes
