pub mod Fates
pub mod Parts
pub mod Attempts
