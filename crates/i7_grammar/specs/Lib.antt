pub mod GrammarFacts
pub mod GrammarScans
pub mod Grammars
pub mod Knowns
pub mod Targets
pub mod TextTokens
pub mod Understood
