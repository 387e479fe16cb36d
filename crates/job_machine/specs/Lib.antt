pub mod Examples
pub mod Fields
pub mod Job
pub mod Texts
