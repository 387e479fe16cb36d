pub mod AddFacts
pub mod AnswerFacts
pub mod BaseFacts
pub mod CellFacts
pub mod JobFacts
pub mod TaskFacts
