pub mod Kept
pub mod Parents
pub mod Found
pub mod Linked
pub mod Above
pub mod Seek
pub mod Walk
pub mod Chain
