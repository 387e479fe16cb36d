pub mod Orderly
pub mod Numbered
pub mod States
pub mod Orders
pub mod Answers
pub mod Examples
