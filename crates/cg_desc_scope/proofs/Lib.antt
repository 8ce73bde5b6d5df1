pub mod Among
pub mod Within
pub mod ByForms
pub mod Last
