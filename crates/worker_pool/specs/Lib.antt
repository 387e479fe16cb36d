pub mod Lists
pub mod Pools
pub mod Answered
pub mod Examples
