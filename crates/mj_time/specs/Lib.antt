pub mod DateText
pub mod Fields
pub mod Moment
