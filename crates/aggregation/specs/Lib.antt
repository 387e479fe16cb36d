pub mod Cells
pub mod Examples
pub mod Groups
pub mod Laws
