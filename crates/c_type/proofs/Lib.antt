pub mod Lists
pub mod Laid
pub mod Table
pub mod Bounds
pub mod Steps
pub mod Held
pub mod Rows
