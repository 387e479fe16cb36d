pub mod FlatFacts
pub mod ServeFacts
pub mod FitFacts
pub mod JoinFacts
pub mod PreparedFacts
