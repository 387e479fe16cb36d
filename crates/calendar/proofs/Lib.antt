pub mod Dates
pub mod DayFacts
pub mod Texts
