pub mod EachByte
pub mod Stopping
