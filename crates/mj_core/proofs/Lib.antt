pub mod Afterwards
pub mod Members
