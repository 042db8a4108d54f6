-- Laws that no one function owns.
pub mod Rows
