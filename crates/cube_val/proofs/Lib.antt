pub mod Dates
pub mod Decimals
pub mod Digits
pub mod OrderFacts
pub mod Printed
pub mod Shared
pub mod Signs
pub mod ValueFacts
