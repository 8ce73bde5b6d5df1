pub mod Firm
pub mod Scope
pub mod Counted
pub mod Delaying
