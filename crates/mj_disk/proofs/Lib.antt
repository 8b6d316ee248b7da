pub mod Imaging
pub mod Taping
pub mod Tearing
