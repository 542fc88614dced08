pub mod Sessions
pub mod Takers
