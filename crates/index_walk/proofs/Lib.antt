pub mod Numbers
pub mod Sides
pub mod Bodies
pub mod Whole
