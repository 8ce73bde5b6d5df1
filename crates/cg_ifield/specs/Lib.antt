pub mod Sets
pub mod Contents
pub mod Tables
pub mod Fields
