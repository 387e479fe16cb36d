pub mod Faults
pub mod Instructions
pub mod Lines
pub mod Names
pub mod Reading
