pub mod Of
mod StartLines
