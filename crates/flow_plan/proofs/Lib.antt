mod Examples
mod Granted
pub mod Paces
pub mod Payloads
