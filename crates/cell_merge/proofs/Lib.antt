pub mod NumberFacts
pub mod CellFacts
pub mod CuboidFacts
pub mod RowFacts
pub mod ValueFacts
