-- The example of a lawful run, and its neighbours.
mod Items
pub mod LawfulRun
pub mod Neighbours
mod PoolOfRun
mod SourcesOfRun
