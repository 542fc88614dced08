pub mod Own
pub mod Effects
pub mod Made
mod Leaving
mod Calls
mod Reading
mod Turns
mod Idle
pub mod Settles
