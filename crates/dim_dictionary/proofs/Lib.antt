pub mod DictLemmas
pub mod MergeLemmas
