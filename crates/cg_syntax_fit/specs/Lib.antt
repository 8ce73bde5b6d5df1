pub mod Slots
pub mod Misfits
