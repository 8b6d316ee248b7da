pub mod Decimals
pub mod Lists
pub mod Hits
pub mod FirstFailed
