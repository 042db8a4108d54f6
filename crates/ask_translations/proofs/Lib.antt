-- Laws that no one function owns.
pub mod Laid
pub mod Walks
pub mod OneLine
pub mod AllLines
