pub mod Logs
pub mod Kept
pub mod Laws
pub mod Examples
pub mod Faults
pub mod Looks
