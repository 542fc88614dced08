-- What destinations deliver of a source's messages.
pub mod Deliveries
pub mod EachSession
pub mod OtherFrames
