-- What the crate's promises cite beside the paper, and what the calls promise of an answer.
pub mod Stretches
pub mod Given
pub mod Handed
