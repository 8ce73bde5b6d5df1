pub mod Slots
pub mod Values
pub mod Misfits
pub mod Fits
