-- What the crate's promises cite: Walking and Room stand in public ones, Members in those of inner functions.
pub mod Walking
pub mod Room
pub mod Members
