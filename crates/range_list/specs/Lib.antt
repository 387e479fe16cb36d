pub mod Ranges
pub mod Covers
pub mod Examples
