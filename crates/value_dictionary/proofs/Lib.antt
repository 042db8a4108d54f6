-- Laws that the crate's proofs share.
pub mod Lookup
pub mod Right
