pub mod Built
pub mod Setup
pub mod Machines
pub mod Placed
pub mod Found
pub mod Plan
pub mod Lawful
