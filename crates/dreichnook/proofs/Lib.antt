pub mod Operators
pub mod Handed
pub mod Once
