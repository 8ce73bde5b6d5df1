pub mod Passing
pub mod Known
pub mod Counts
pub mod Frames
pub mod E314
pub mod E308
