pub mod Attempts
pub mod Configurations
pub mod Entries
pub mod Lawful
pub mod Machine
pub mod Places
