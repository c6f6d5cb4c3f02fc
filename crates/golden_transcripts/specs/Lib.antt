pub mod Commands
pub mod Transcripts
