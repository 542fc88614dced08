pub mod Cuts
pub mod Seen
pub mod Walk
pub mod Times
pub mod Attempts
pub mod Following
pub mod Segments
