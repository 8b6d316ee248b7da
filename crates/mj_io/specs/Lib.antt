pub mod Folder
pub mod Grown
pub mod Held
