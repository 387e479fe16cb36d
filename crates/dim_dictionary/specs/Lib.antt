pub mod Dictionaries
pub mod Laws
