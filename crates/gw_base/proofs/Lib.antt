pub mod Cells
mod Padding
pub mod Lists
