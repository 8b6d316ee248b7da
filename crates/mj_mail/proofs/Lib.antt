pub mod AttributeLists
pub mod Entries
pub mod Numbers
pub mod Recipients
pub mod Trees
