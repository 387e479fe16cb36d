pub mod Gathers
pub mod Keys
pub mod Laws
pub mod Merges
pub mod Runs
