pub mod Evaluated
pub mod Conditions
pub mod Composites
