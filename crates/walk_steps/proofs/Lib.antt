pub mod Places
pub mod Leaves
pub mod Elements
pub mod Attributes
pub mod Loops
