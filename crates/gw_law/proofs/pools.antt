-- The moves of the pool, and what the records of source channels say of them.
pub mod Changes
pub mod Entries
mod FreeSets
mod Needs
mod Overs
pub mod PoolRuns
pub mod Pools
