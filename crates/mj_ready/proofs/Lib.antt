pub mod Depths
pub mod Ordered
pub mod Sifting
pub mod Uses
