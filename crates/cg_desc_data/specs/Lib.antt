pub mod Selecting
pub mod Framing
pub mod Numbering
pub mod Extents
pub mod Multis
pub mod Hardware
pub mod Operands
pub mod Seen
