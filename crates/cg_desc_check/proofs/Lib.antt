pub mod Answering
pub mod Digits
