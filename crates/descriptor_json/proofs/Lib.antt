pub mod Items
pub mod Parsed
pub mod Told
