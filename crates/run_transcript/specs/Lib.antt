pub mod Entries
pub mod Examples
pub mod Opens
pub mod Runs
pub mod Served
pub mod Transcripts
