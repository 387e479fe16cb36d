pub mod BoardModel
pub mod Boards
pub mod Examples
pub mod Ledger
pub mod Turns
