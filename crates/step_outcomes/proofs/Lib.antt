pub mod CallFacts
pub mod FaultFacts
pub mod AnswerFacts
