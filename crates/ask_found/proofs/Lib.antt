-- Laws that no one function owns.
pub mod Accepted
pub mod Residues
pub mod Located
pub mod Spanned
pub mod Translated
