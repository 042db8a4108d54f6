pub mod Keys
pub mod Roles
pub mod Tallies
pub mod Tables
pub mod Sums
