pub mod Counting
pub mod Powers
