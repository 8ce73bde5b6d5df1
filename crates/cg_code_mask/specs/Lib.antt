pub mod View
pub mod Constants
