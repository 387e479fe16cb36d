pub mod CellFacts
pub mod FileFacts
pub mod ImageFacts
pub mod StepFacts
pub mod TableFacts
pub mod WordFacts
