pub mod Boxed
pub mod Here
pub mod Initialisers
