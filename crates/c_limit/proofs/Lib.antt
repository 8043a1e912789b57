pub mod EdgeStarts
pub mod Whole
pub mod Rows
pub mod Needed
pub mod LimitRows
pub mod FrameParts
pub mod FirstPassed
pub mod UnitFrames
