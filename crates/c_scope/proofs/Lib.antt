pub mod NamesDiffer
pub mod Indexed
pub mod Entered
pub mod Firsts
pub mod Laying
pub mod Blocks
pub mod Redeclared
pub mod TagsIn
