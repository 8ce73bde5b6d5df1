pub mod Fronts
pub mod Indexing
pub mod Ordering
pub mod Trying
