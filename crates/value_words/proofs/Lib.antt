pub mod Read
pub mod Tests
pub mod Numbers
