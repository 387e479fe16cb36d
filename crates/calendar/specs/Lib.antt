pub mod Dates
pub mod DayTexts
pub mod Laws
