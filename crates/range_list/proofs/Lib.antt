pub mod Apart
pub mod Covering
