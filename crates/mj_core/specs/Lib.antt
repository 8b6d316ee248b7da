pub mod Epochs
pub mod Events
pub mod Held
