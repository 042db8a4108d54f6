-- Laws that no one function owns.
pub mod Kept
pub mod Planning
pub mod Ones
