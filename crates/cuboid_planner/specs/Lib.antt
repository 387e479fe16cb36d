pub mod Sizes
pub mod Valid
pub mod Costs
pub mod Kept
pub mod Best
pub mod Picks
pub mod Examples
