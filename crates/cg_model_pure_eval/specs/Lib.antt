pub mod Typed
pub mod Typing
pub mod Carrying
pub mod Parting
pub mod Joining
pub mod Branching
pub mod Choosing
pub mod Seen
