pub mod Given
pub mod RunWords
pub mod Refusals
pub mod PlainFacts
pub mod RestFacts
pub mod SomeCommand
pub mod HandFacts
