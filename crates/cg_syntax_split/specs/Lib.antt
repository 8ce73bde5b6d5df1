pub mod Laws
pub mod Passing
pub mod Gaps
