pub mod Answers
pub mod FaultTexts
pub mod HostTables
pub mod Hosts
pub mod PropertyNames
pub mod StoredRules
