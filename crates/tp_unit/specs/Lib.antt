pub mod Unit
pub mod Reading
pub mod Shape
pub mod Writing
pub mod Box
