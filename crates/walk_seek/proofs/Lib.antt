pub mod Ahead
pub mod Within
