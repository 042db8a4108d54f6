-- What the promises of the crate, and of those above it, cite.
pub mod Measuring
