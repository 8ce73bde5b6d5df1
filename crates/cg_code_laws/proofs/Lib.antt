pub mod Putting
pub mod Settings
pub mod Formats
pub mod Encodings
pub mod Plain
