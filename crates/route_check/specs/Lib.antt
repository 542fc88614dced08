pub mod Order
pub mod Names
pub mod Entries
pub mod Conflicts
pub mod Texts
pub mod Search
