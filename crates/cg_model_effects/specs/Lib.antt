pub mod Asking
pub mod Effects
