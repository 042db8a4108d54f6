pub mod Runs
pub mod Elements
pub mod Header
pub mod Wholes
pub mod Once
