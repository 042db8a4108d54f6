pub mod Sizes
pub mod Empties
pub mod Sums
