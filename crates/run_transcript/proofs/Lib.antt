pub mod Told
pub mod Histories
pub mod Unanswered
pub mod SmallAnswer
