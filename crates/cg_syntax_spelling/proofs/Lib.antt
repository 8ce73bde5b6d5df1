pub mod Known
pub mod Parting
pub mod Adding
pub mod Alike
