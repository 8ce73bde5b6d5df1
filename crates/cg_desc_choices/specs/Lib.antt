pub mod Putting
pub mod Choices
pub mod Ways
pub mod Walking
pub mod Holding
