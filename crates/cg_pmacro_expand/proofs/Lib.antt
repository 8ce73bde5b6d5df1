pub mod Rules
pub mod ExpandRules
