pub mod Says
pub mod Closed
pub mod EnvOf
pub mod Places
pub mod Entries
pub mod Blocks
