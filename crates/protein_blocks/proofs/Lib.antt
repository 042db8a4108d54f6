-- The laws behind the proofs.
pub mod Joined
