pub mod Coded
pub mod Coding
