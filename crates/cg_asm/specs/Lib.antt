pub mod Faulting
pub mod Placing
