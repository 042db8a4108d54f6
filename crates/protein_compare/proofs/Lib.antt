-- Laws that no one function owns.
pub mod Runs
pub mod Rights
pub mod Plain
pub mod Values
