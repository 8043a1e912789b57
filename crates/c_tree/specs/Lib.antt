-- trees as they are read
pub mod TreeExpr
pub mod TreeDecl
pub mod TreeStmt
pub mod TreeUnit
pub mod TreeOf
-- typed trees
pub mod TExpr
pub mod TStmt
pub mod TUnit
pub mod TypedOf
pub mod Starts
pub mod Gathered
pub mod Bodies
pub mod Library
-- arithmetic and constants
pub mod Arith
pub mod Constant
