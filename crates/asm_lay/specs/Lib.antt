pub mod Names
pub mod Pieces
pub mod Laying
pub mod Rows
