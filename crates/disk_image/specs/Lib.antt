pub mod Changes
pub mod Crashes
pub mod MemoryDisk
pub mod MemoryLaws
pub mod Examples
