mod Sending
mod Calling
mod Executing
pub mod Ending
