pub mod Modes
pub mod Least
