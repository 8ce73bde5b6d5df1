pub mod Blanks
pub mod Parted
pub mod Named
