pub mod Blocks
pub mod CellByCell
pub mod Composing
pub mod Consistency
pub mod Made
pub mod OwnSteps
pub mod Sizes
pub mod Through
