pub mod Carried
pub mod Endings
pub mod Fronts
pub mod Names
pub mod Written
