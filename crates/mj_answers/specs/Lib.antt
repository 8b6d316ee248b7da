pub mod Faults
pub mod Fitting
pub mod Places
pub mod Reading
