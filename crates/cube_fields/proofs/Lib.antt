pub mod CellFacts
pub mod ExactCells
pub mod ExactDicts
pub mod Given
pub mod MergeFits
pub mod Puts
pub mod Rises
pub mod TableFacts
