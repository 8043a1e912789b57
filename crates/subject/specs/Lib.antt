pub mod Output
pub mod Process
pub mod RunsText
