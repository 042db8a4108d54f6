pub mod Verdicts
pub mod Demands
