pub mod Delays
pub mod Digits
pub mod Draft
pub mod Limits
pub mod Schedule
pub mod Steps
