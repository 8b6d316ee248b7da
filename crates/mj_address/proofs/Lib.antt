pub mod Cuts
pub mod Different
pub mod LowerCase
pub mod Masks
pub mod Spellings
pub mod Short
