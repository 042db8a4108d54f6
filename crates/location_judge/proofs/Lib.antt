-- Laws that no one function owns.
pub mod Stand
pub mod Digits
pub mod Shapes
pub mod Kept
pub mod Rule25
pub mod Words
pub mod Levels
pub mod Gather
pub mod Verdicts
pub mod Signs
pub mod Listed
