pub mod Snaps
