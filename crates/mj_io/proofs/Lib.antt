pub mod FolderLemmas
pub mod NameOrder
