-- Laws that no one function owns.
pub mod Counted
pub mod Commas
pub mod Walks
pub mod Starting
pub mod Laying
pub mod Listed
pub mod Walked
