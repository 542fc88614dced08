pub mod Cuts
pub mod Walks
pub mod Growth
pub mod Segments
pub mod Prefixes
pub mod Kept
