pub mod CostLemmas
pub mod PickLemmas
pub mod LawLemmas
pub mod TraceLemmas
pub mod ValidLemmas
