pub mod Route
pub mod Examples
