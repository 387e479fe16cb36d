mod PartFacts
mod SetFacts
