pub mod QueryEnds
