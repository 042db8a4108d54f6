-- Laws that no one function owns.
pub mod Finished
pub mod Measuring
