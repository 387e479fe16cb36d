mod Lists
pub mod Swaps
mod Drops
mod Means
