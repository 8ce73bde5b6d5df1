pub mod Functions
pub mod Shapes
