mod Firsts
mod Fronting
pub mod Causes
