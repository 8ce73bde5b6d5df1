pub mod Once
pub mod Bare
pub mod Texts
pub mod Described
pub mod Seen
pub mod ByForm
pub mod Timing
pub mod Lent
