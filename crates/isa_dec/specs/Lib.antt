pub mod OperandAt
pub mod OpcodeAt
pub mod Decoded
pub mod Reads
