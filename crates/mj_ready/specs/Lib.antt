pub mod Due
pub mod Heap
pub mod Steps
