pub mod Telling
pub mod Faulting
