pub mod Addressed
pub mod causes
pub mod deliveries
pub mod literals
mod Dests
pub mod Laws
pub mod pools
pub mod Readers
pub mod Rooms
mod Routes
pub mod runs
pub mod Sources
pub mod times
pub mod Written
