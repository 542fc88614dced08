mod Keeping
mod Lists
mod Newly
pub mod UnitLaw
