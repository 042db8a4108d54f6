pub mod Counting
pub mod Residues
