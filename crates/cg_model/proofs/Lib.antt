pub mod FieldBits
pub mod Meanings
