pub mod Line
pub mod Fault
pub mod Reading
pub mod Spelling
pub mod Laws
pub mod Steps
