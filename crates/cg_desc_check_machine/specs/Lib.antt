pub mod Later
pub mod Naming
