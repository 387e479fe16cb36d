pub mod Bytes
pub mod Examples
pub mod Places
pub mod Readings
pub mod Tells
pub mod Walk
