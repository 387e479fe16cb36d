pub mod Exact
pub mod Loop
pub mod Wide
pub mod ExactFrames
