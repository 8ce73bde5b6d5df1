pub mod Named
pub mod Parts
pub mod Written
pub mod Choices
pub mod Expanded
pub mod E317
