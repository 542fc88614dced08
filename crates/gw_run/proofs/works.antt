-- The works of the loop over ticks are a run.
pub mod Joined
pub mod Runs
pub mod RxParts
pub mod SerialRun
pub mod TxParts
pub mod Wholes
pub mod Windows
