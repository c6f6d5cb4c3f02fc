pub mod Plays
pub mod AlikeRuns
