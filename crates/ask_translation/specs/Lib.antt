-- What the crate's promises cite.
pub mod Refusals
pub mod Plans
pub mod Ones
