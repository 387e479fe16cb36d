pub mod Cells
pub mod Columns
pub mod Lanes
pub mod Selects
