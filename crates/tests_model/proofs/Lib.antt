pub mod Worked
pub mod Soundness
