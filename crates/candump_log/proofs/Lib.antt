pub mod Cuts
pub mod Fronts
pub mod Given
mod Behind
mod LineFeeds
mod Logs
mod Stopping
pub mod Stops
mod Texts
pub mod Underway
mod WholeLogs
