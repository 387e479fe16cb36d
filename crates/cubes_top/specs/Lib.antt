pub mod Words
pub mod Outside
pub mod Plain
pub mod Outcomes
pub mod Rests
pub mod Ties
