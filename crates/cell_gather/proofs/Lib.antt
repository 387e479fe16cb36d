pub mod GatherFacts
pub mod KeyFacts
pub mod LoopFacts
pub mod MergeFacts
pub mod RowFacts
pub mod RunFacts
pub mod TableFacts
