pub mod AggLemmas
pub mod CondLemmas
pub mod EachLemmas
pub mod NeedLemmas
pub mod SoundFacts
pub mod WithinFacts
