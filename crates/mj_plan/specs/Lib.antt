pub mod Forms
pub mod Listed
pub mod Lookups
pub mod Places
pub mod Rewriting
pub mod Sound
