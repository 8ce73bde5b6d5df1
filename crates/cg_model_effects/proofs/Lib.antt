pub mod Turns
pub mod Effects
