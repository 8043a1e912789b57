pub mod Causes
pub mod Told
pub mod Schedule
pub mod Named
pub mod Memory
pub mod Sure
