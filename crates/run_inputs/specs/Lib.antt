pub mod Inputs
pub mod Laws
pub mod Lines
pub mod Reading
