pub mod Parts
pub mod Faults
pub mod Bytes
pub mod Seen
pub mod Moltypes
pub mod Values
pub mod Counters
pub mod Symbols
