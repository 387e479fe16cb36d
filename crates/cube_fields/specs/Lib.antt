pub mod Cells
pub mod Dicts
pub mod Laws
pub mod Orders
pub mod Reading
