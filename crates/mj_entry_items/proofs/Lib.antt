pub mod Ascending
pub mod Fronts
pub mod NextFields
pub mod Turns
