pub mod Sources
pub mod Segments
pub mod Kept
pub mod Built
pub mod ReadySets
pub mod Laws
pub mod Examples
