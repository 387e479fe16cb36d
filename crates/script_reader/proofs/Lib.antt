pub mod Digits
pub mod Words
pub mod Utf8
pub mod Readings
