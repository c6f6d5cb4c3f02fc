pub mod FaultTexts
pub mod OneSession
pub mod SourceRuns
pub mod Statuses
