pub mod Ready
pub mod States
pub mod Tasks
pub mod Ends
pub mod Kept
