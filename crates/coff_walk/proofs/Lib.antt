pub mod Walk
pub mod Closing
pub mod Reaching
