pub mod Mentions
pub mod Words
