pub mod OpenLines
pub mod Stops
