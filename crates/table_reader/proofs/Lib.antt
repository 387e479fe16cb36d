pub mod ColumnFacts
pub mod DigestFacts
pub mod KeyFacts
pub mod OutcomeFacts
pub mod RecordFacts
pub mod RowFacts
pub mod TableFacts
