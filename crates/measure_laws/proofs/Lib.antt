pub mod FormFacts
pub mod IdCounts
pub mod Unions
