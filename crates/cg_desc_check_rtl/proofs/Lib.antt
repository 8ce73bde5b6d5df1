pub mod Nodes
pub mod Naming
pub mod Dividing
pub mod Leading
pub mod Settling
