pub mod Head
pub mod Fields
pub mod Reading
-- blanks and names, on which these definitions stand
pub use Rattle.mj_terms.specs.Text
