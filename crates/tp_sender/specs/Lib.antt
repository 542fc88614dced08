pub mod Effects
pub mod Frame
pub mod Own
pub mod Port
pub mod Runs
pub mod State
pub mod Table
