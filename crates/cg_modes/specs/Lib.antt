pub mod Arms
pub mod Carried
