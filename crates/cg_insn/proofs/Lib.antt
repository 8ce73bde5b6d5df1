pub mod Behind
pub mod Reread
pub mod Written
