pub mod Examples
pub mod Flat
pub mod Partners
pub mod Prepared
pub mod Fits
pub mod JoinExamples
pub mod Joins
pub mod Laws
