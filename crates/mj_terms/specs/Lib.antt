pub mod Answers
pub mod Causes
pub mod Limits
pub mod Text
