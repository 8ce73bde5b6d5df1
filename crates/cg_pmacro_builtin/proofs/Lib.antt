pub mod Fronts
pub mod Names
pub mod Values
pub mod Same
pub mod Equality
pub mod Numbers
pub mod Rules
