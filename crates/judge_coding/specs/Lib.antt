-- What the crate's promises cite.
pub mod Translations
pub mod Coding
