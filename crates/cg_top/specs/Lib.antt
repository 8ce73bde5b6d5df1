pub mod Asking
pub mod Lines
pub mod Loading
pub mod Own
pub mod Replies
pub mod Answer
pub mod Top
