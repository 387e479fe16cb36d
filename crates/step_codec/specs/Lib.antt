pub mod Bodies
pub mod Layouts
pub mod Laws
pub mod Reading
pub mod Seals
pub mod Tables
