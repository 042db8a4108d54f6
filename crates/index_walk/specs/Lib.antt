-- What the crate's promises cite.
pub mod Bodies
