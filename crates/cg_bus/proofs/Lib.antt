pub mod Powers
pub mod Reaching
pub mod Standing
