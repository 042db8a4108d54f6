pub mod Rights
pub mod Regions
