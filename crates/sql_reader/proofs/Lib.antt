pub mod Sets
pub mod Exact
pub mod Deeper
pub mod Levels
pub mod Loops
pub mod Whole
pub mod Least
