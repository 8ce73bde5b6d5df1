pub mod Kinds
pub mod Elements
pub mod Heads
pub mod Reading
pub mod Belonging
pub mod E318
