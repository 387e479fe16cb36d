pub mod MaskFacts
