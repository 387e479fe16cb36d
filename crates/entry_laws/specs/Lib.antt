pub mod OpenEntries
