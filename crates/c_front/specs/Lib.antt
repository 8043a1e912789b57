pub mod First
pub mod Accepted
pub mod Causes
pub mod Laws
pub mod Sources
pub mod Errors
