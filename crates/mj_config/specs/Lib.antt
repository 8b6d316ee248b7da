pub mod Seen
-- the walk that a plan is the result of
pub use Rattle.mj_config_walk.specs.Walk
