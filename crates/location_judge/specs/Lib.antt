-- What the crate's promises cite: Judging stands in those of a verdict, Places in those of bytes at a place, Readings in those of what is
-- read.
pub mod Places
pub mod Judging
pub mod Readings
