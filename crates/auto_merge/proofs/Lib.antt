pub mod RunLemmas
pub mod MergeLemmas
pub mod LawLemmas
