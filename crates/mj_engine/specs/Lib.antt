pub mod Config
pub mod Ends
pub mod Faults
pub mod Intake
pub mod Run
pub mod Top
