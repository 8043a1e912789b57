pub mod JoinSaid
pub mod JoinTypes
pub mod JoinChecks
