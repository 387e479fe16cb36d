pub mod Cube
pub mod FlatRow
pub mod Forms
pub mod Groups
pub mod Kept
pub mod Meaning
pub mod Resolve
pub mod Sound
