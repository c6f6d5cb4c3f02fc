pub mod Lines
pub mod Synonyms
