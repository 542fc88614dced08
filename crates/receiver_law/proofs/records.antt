-- The records, and what they tell.
pub mod JointReceivers
pub mod JointSessions
pub mod PutCells
pub mod PutLooks
pub mod PutSteps
pub mod SoFarSteps
pub mod SoFars
pub mod SourceLaws
pub mod Tellings
