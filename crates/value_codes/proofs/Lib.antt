pub mod Pairs
pub mod Dates
