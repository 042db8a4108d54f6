pub mod Parts
pub mod Says
