-- Laws that no one function owns.
pub mod Residues
pub mod Codons
pub mod Readings
pub mod Stops
pub mod Blocks
