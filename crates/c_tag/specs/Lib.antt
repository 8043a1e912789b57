pub mod Words
pub mod TagParts
