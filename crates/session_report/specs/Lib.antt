pub mod Lines
pub mod Orders
pub mod Printing
pub mod Reading
