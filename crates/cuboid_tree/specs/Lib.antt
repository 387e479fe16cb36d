pub mod Tree
pub mod Links
pub mod Examples
