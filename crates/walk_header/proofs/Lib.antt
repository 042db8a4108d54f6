pub mod Entries
pub mod Root
