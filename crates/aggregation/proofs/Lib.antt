pub mod CellFacts
pub mod DistinctFacts
pub mod GroupFacts
