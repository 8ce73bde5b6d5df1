pub mod Shape
pub mod Including
pub mod Gathering
pub mod Fetching
