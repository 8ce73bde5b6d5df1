pub mod Saying
pub mod Spots
pub mod Subject
