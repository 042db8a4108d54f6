-- The laws behind the proofs.
pub mod Sets
pub mod Stopping
pub mod Plain
pub mod Codes
