pub mod Renumbered
pub mod Merges
pub mod Laws
pub mod Examples
