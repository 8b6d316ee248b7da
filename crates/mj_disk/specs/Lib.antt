pub mod Held
pub mod ImageLaws
pub mod Media
pub mod MomentLaws
pub mod Moments
pub mod Past
pub mod Tape
