pub mod Printing
pub mod WrittenForms
pub mod WrittenKeywords
pub mod WrittenNames
pub mod WrittenPhrases
pub mod WrittenRules
pub mod WrittenStandard
