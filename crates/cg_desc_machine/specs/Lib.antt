pub mod Rules
pub mod Instructions
pub mod Macros
pub mod Machines
pub mod Seen
