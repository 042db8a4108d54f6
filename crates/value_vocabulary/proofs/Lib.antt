-- Laws that the crate's proofs share.
pub mod Right
pub mod InRow
pub mod Keyed
