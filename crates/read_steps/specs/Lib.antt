pub mod Follow
pub mod Parts
pub mod Reads
pub mod Texts
pub mod Words
