pub mod Ends
pub mod Lines
pub mod Plain
-- blanks, on which these definitions stand
pub use Rattle.mj_terms.specs.Text
