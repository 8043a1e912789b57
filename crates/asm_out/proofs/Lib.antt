pub mod Made
pub mod Causes
