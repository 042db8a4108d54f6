-- Laws that no one function owns.
pub mod Keys
pub mod Lists
pub mod Loops
pub mod Values
pub mod Frames
pub mod Exceptions
pub mod Words
pub mod Noting
