pub mod Exact
pub mod TextFacts
