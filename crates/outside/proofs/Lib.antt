pub mod FoundFiles
pub mod Fails
pub mod JoinedLists
pub mod Rises
pub mod WatchFacts
