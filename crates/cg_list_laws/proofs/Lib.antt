pub mod Shown
pub mod Reading
pub mod Sizes
pub mod Stated
pub mod Written
pub mod Lines
pub mod Assembled
