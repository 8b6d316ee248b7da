pub mod Grown
pub mod Values
