pub mod Quiet
pub mod Later
pub mod LaterExprs
pub mod LaterStmts
pub mod LaterRun
pub mod Suited
