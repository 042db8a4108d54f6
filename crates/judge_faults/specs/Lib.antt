-- What the contracts of the judge's parts cite.
pub mod Sets
pub mod Known
pub mod Counters
