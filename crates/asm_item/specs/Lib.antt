pub mod Words
pub mod Args
pub mod Statements
pub mod Rows
pub mod Groups
pub mod Printed
pub mod Normal
pub mod Stand
