pub mod Batches
pub mod Headers
pub mod Loads
pub mod Pieces
pub mod Placing
pub mod Puts
pub mod Steps
pub mod Walks
