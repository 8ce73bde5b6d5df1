pub mod Asking
pub mod Held
pub mod Calls
pub mod Host
pub mod Memory
