pub mod Uses
pub mod Seen
