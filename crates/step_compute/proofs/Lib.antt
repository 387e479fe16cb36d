pub mod BaseFacts
pub mod ColumnFacts
pub mod LayerFacts
pub mod WatchFacts
