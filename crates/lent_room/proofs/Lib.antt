pub mod Laws
pub mod Passes
pub mod Numbers
pub mod Leaves
pub mod Numerals
pub mod Characters
