pub mod Fresh
pub mod Holds
mod Schedules
pub mod Sorted
pub mod SortedDocuments
pub mod SortedNodes
pub mod Sound
pub mod SoundAddresses
pub mod SoundConditions
pub mod SoundMailets
pub mod SoundMatchers
pub mod SoundProcessors
pub mod SoundSpool
pub mod SoundSteps
