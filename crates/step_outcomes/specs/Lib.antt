pub mod Ends
pub mod Faults
pub mod Calls
pub mod Examples
