pub mod Id
pub mod Length
pub mod Frame
pub mod Priority
