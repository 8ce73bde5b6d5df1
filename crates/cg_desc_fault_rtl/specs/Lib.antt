pub mod Asking
pub mod Expressions
pub mod Judging
pub mod E315
pub mod E405
