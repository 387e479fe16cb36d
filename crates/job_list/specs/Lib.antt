pub mod JobList
pub mod Links
