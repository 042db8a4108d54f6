-- What the crate's promises cite.
pub mod Tables
pub mod Lookups
