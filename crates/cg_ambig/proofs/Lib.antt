pub mod Sounding
pub mod Bridge
pub mod Filling
pub mod Strings
