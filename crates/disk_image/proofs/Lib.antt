mod Records
mod Images
mod Calls
pub mod CrashConditions
