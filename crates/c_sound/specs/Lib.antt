pub mod HasType
pub mod Suits
pub mod Program
pub mod Unit
pub mod Laws
