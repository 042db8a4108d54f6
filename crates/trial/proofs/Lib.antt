-- The laws behind the proofs.
pub mod Answers
pub mod Located
