pub mod Names
pub mod MacroNames
pub mod Words
pub mod Shapes
pub mod E304
pub mod E306
