pub mod Tags
pub mod Quick
