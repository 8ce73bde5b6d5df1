pub mod Attrs
pub mod Clauses
pub mod Contents
pub mod Judging
pub mod Tables
pub mod Lookups
pub mod Frames
