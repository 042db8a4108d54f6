-- What the crate's promises cite.
pub mod Items
pub mod Within
