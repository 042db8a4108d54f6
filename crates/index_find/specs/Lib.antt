-- What the crate's promises cite.
pub mod Numbers
pub mod Finds
