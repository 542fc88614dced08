pub mod Unit
pub mod Lane
pub mod Props
pub mod Fates
pub mod Calls
pub mod Past
pub mod Alone
