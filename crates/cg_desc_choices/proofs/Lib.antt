pub mod Meeting
pub mod Depths
pub mod Taking
pub mod Steps
