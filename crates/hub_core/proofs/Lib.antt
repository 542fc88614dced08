mod Beginnings
pub mod Cut
pub mod EveryStep
mod Freeing
pub mod Grouped
pub mod GroupReads
pub mod Kept
pub mod HubGroups
mod Leaving
mod Ledger
mod Looks
mod Merging
pub mod Owning
pub mod Places
pub mod Pools
mod Positions
pub mod Quiet
mod Rows
mod Scans
mod Shown
mod Starts
mod Streamed
mod Sure
mod Taking
pub mod Beside
pub mod Fresh
pub mod Growing
pub mod Later
pub mod Turns
pub mod Led
pub mod Numbered
pub mod Changed
pub mod Sides
pub mod Standing
pub mod Hubs
pub mod OneGroup
