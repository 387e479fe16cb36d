pub mod SearchFacts
pub mod SnapFacts
