pub mod Columns
pub mod Examples
pub mod Values
pub mod Wants
pub mod Watched
