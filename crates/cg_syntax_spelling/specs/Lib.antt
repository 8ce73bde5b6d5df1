pub mod Lowered
pub mod Adding
pub mod Laws
