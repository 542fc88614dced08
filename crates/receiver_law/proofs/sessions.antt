-- The sessions that a receiver opens.
pub mod Begins
pub mod Entries
pub mod Openings
pub mod Sessions
pub mod StandingWriter
pub mod Stores
