pub mod Bounds
pub mod Civil
pub mod DateLines
pub mod Days
