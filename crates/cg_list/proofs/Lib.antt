pub mod Written
pub mod Bundled
pub mod Lined
pub mod Listed
pub mod Agreed
pub mod Decoded
