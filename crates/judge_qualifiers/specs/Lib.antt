-- What the crate's promises cite.
pub mod Qualifiers
pub mod Starts
