-- What the crate's promises cite.
pub mod Room
pub mod Spelled
