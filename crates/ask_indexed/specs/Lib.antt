-- What the crate's promises cite beside the paper.
pub mod Finds
pub mod Shows
