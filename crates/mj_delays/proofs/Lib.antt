pub mod Drafts
pub mod Numerals
pub mod Parts
pub mod Short
pub mod Trims
