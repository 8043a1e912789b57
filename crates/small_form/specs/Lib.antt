pub mod SmallForm
pub mod Given
