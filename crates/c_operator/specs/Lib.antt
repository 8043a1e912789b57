pub mod Taken
pub mod Boxed
pub mod OfValues
pub mod MemberOf
