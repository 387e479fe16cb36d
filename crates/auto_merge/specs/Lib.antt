pub mod Expiry
pub mod Chances
pub mod Plans
pub mod Turns
pub mod Examples
