pub mod Clear
pub mod Nodes
pub mod Rules
pub mod Fields
pub mod Bits
pub mod Formats
pub mod Whole
