pub mod Acceptable
pub mod Again
pub mod Lines
