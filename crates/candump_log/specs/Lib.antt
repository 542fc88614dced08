pub mod Dated
pub mod Held
pub mod Line
pub mod Log
pub mod Reader
pub mod Reading
pub mod Source
pub mod Writer
