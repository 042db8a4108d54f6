pub mod Ones
pub mod Totals
