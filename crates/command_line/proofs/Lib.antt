pub mod FormFacts
pub mod ProgramFacts
