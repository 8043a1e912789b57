pub mod ReadStmt
pub mod ReadUnit
pub mod Words
pub mod Units
pub mod Laws
pub mod Heads
