mod Entries
mod OneLog
mod Changes
mod Appended
mod Runs
mod LeftAlone
mod Pieces
mod Reading
