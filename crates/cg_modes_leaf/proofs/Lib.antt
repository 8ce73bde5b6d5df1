pub mod Scopes
pub mod Places
pub mod Counting
pub mod Reaching
pub mod Sizes
pub mod Tables
