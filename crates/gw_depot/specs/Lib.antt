pub mod Fault
pub mod Files
pub mod MemDepot
pub mod MemFiles
pub mod NeverFails
pub mod Outside
pub mod Plan
