pub mod Found
pub mod Known
pub mod Answered
pub mod Once
