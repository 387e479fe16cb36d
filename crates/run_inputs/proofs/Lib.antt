pub mod Faults
pub mod Fitting
pub mod Outcomes
pub mod Refusals
