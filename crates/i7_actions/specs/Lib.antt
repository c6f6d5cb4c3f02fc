pub mod Actions
pub mod BookForms
pub mod Books
pub mod NounForms
pub mod Nouns
pub mod Parts
pub mod Trying
pub mod TryingForms
