pub mod Base
pub mod Pieces
pub mod Cuboids
pub mod Layers
pub mod Meanings
pub mod Runs
