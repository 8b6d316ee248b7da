pub mod FrameLaws
pub mod Gate
pub mod Header
pub mod Journal
pub mod Log
pub mod Places
pub mod View
