mod Documents
mod FirstPlaces
mod InTurn
pub mod Replies
