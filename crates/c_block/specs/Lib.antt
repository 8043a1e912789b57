pub mod PlaceOf
pub mod SwitchParts
