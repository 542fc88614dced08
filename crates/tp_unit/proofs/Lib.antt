pub mod Sizes
pub mod RoundTrip
pub mod Rises
