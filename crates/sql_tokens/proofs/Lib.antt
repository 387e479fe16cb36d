pub mod Cutting
pub mod NumberFacts
pub mod QuoteFacts
pub mod Rising
pub mod Within
