pub mod AggregateLemmas
pub mod ConditionLemmas
pub mod GroupLemmas
pub mod KindFacts
pub mod LoopLemmas
pub mod OrderLemmas
pub mod ProjectionLemmas
pub mod SortLemmas
