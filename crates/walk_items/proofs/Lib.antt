pub mod Features
pub mod Quiet
pub mod Sequences
pub mod Inner
