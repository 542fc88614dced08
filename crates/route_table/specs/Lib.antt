pub mod ByBus
pub mod Match
pub mod Table
