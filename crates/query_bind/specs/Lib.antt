pub mod Asks
pub mod Bounds
pub mod Needs
pub mod Titles
