pub mod InFlight
pub mod HandLists
pub mod Turns
