mod Tokened
mod FewTokens
mod UnitFits
pub mod MainFits
pub mod Compiling
pub mod OneProgram
