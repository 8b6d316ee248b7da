pub mod Grammar
pub mod Kept
pub mod Masks
pub mod Reading
pub mod Same
pub mod Short
