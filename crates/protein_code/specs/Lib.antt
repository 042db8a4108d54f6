-- What the contracts cite.
pub mod Stops
pub mod Plain
pub mod Tables
