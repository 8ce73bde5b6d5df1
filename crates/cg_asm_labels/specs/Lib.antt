pub mod Labelling
pub mod Joining
