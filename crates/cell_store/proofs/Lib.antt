pub mod ColumnLemmas
pub mod KindFacts
pub mod LaneLemmas
pub mod SelectLemmas
pub mod TableLemmas
