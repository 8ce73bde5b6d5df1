pub mod Syntax
pub mod Parts
pub mod Expressions
pub mod Contents
pub mod Tables
pub mod Instructions
