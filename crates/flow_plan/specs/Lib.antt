pub mod Cells
pub mod Gap
pub mod Grant
pub mod Laws
pub mod Need
pub mod Pace
