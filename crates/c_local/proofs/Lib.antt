pub mod FromHere
pub mod Here
pub mod Inits
pub mod Lists
pub mod Objects
pub mod TextsMet
