-- Laws that no one function owns.
pub mod Runs
pub mod Putting
