pub mod OpenEntryFacts
