pub mod Evaluable
pub mod Surroundings
