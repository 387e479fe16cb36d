pub mod ExactBodies
pub mod ExactSeals
pub mod HoldFacts
pub mod KeyFacts
pub mod LayerFacts
pub mod LayerReads
