pub mod Names
pub mod Faults
pub mod Said
pub mod Tree
pub mod Readings
pub mod Settings
