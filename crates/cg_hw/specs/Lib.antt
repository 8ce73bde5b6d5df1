pub mod Types
pub mod Keywords
pub mod Rules
pub mod Contents
pub mod Tables
pub mod Hardware
