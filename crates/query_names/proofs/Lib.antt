pub mod AskedFacts
pub mod CondLemmas
pub mod KeyLemmas
pub mod LeastLemmas
