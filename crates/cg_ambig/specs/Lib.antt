pub mod Patterns
pub mod Strings
