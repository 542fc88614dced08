pub mod receptions
pub mod records
pub mod runs
pub mod sessions
