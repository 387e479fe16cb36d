pub mod Numbers
pub mod Splices
